mod ReadLaws
mod LineLaws
