mod Values
mod Items
mod Chains
mod Parses
mod PlainForm
mod Differing
