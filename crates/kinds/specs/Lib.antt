pub mod Objectives
pub mod Matroids
pub mod Claims
