mod InCommon
mod Numbers
mod Fronts
mod Lined
