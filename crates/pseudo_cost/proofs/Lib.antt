mod Best
mod Runs
