mod Leaving
mod Writing
