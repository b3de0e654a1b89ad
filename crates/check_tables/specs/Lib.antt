-- Definitions of the exits of rows, of the states that they leave, and of the tables built from a certificate.
pub mod Exits
pub mod Lefts
pub mod Tables
