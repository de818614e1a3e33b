mod Closure
mod Counted
mod Falling
mod Meetings
mod Unopened
