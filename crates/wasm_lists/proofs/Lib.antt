pub mod EndLaws
pub mod CheckLaws
pub mod WrittenLists
pub mod EncodedListLaws
pub mod LongerLaws
pub mod ItemReadingLaws
