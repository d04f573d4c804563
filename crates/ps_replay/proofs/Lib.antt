mod Courses
mod SessionPlaces
mod Sources
