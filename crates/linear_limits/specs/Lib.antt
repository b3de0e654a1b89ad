-- The definitions: extremes of linears, products with a bound, and limits.
pub mod Extremes
pub mod Products
pub mod Limit
