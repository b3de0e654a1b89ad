mod AlongLemmas
mod ArrivalLemmas
