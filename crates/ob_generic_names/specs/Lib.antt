pub mod HeadsByName
