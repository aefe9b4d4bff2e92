mod Accepted
mod Answered
mod Bytes
mod Items
mod Longest
mod Walks
