mod CommitsLaws
mod PiecesLaws
mod PlainLaws
mod ReadsLaws
