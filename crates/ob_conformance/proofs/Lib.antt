pub mod NotedLemmas
