mod Packing
mod Seeing
