pub mod Gains
pub mod SideGains
pub mod ColumnGains
pub mod Notes
pub mod Laws
