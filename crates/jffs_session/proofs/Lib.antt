mod Histories
mod Telling
mod Paths
mod Stages
mod Steps
mod Endings
mod Cleaned
