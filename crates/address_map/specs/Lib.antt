-- The definitions of address maps. The first line of each file says whether `Safe` depends on it (Trusted) or not
-- (Helper).
pub mod AddressMap
pub mod BoardTables
pub mod Cell
pub mod MapLaw
pub mod Boards
pub mod Class
pub mod WorkRam
pub mod Pages
pub mod RamKind
pub mod Ranges
pub mod Shared
pub mod Starts
pub mod Zone
pub mod ZoneUse
