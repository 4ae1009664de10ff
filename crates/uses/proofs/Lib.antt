mod WholeFile
mod Cited
