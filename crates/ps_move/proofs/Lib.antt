mod Steps
mod Order
mod Ends
mod Parts
mod Passes
mod Movers
mod Entering
