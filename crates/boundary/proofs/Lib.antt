-- Laws after the exported calls.
mod Laws
