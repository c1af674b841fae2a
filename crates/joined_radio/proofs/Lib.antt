mod Joints
mod Lawful
mod Tried
