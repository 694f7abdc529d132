pub mod FirstLaws
pub mod Firsts
