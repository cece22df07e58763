pub mod BitOf
pub mod PartLaws
pub mod FlagLaws
pub mod SizedFlags
