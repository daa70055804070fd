-- Search: what a search needs of its columns, and what it leaves in them.
pub mod Search
