mod Tails
mod Had
mod Empty
mod Chunks
mod Places
mod Judging
