-- In reading order. LogCalled: loads and resets that were called. Log: what they leave in the weights and in the log, read place by place.
pub mod LogCalled
pub mod Log
