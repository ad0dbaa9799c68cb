pub mod PostsLaws
