mod Numbers
mod Satisfied
mod Specs
mod Spelling
mod Trimming
