mod Numbers
mod Entered
mod LimitsAsked
