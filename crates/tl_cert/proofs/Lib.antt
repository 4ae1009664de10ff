pub mod Common
pub mod Places
pub mod LinksCarried
pub mod PartsCarried
