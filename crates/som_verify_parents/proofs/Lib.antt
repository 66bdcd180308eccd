mod FirstParent
mod Covered
