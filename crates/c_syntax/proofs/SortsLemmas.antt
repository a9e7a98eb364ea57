pub mod WordLists
