-- How values are kept by grade.
pub mod Grades
