mod Nears
mod OneFile
mod Whole
mod Fitting
mod OneGraph
mod StillStream
