pub mod Firsts
pub mod Tokens
pub mod Places
pub mod Books
