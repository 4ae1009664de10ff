pub mod FoundKeys
