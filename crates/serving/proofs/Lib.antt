mod Walks
mod Windows
mod Runs
mod Promise
mod Serves
