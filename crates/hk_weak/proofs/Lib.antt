pub mod Bits
mod FewBits
mod Subsets
mod WeakBits
