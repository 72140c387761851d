mod Admissions
mod OneRefusal
