pub mod Replies
pub mod Accesses
pub mod Texts
pub mod Shows
pub mod Reports
pub mod CarriesOut
pub mod Starts
