mod LinesLemmas
mod PiecesLemmas
