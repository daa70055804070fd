-- Reports: what is handed to C for each kind of answer. Arguments: the diagonal probability as C hands it over.
pub mod Reports
pub mod Arguments
