-- QueryReports: what is handed to C of paths. PrebuiltReports: of the prebuilt complete graph.
pub mod QueryReports
pub mod PrebuiltReports
