mod EachDifference
mod Signs
