mod Held
mod Numbers
