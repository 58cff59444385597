mod Depths
mod Judged
mod OfForm
