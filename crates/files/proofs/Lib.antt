mod Maps
mod NewFiles
