-- Laws that this program's proofs cite.
mod Turning
