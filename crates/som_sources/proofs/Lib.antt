pub mod ReadLaws
pub mod MainLaws
pub mod FewTokens
pub mod TextsWithin
