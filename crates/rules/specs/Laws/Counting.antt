-- Lists and tests: what it tells that a test holds, and sums over lists for every weight, by which all counting goes.
pub mod Sums
