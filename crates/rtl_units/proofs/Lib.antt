mod Divisions
mod Edge
mod Products
mod WiresFrom
