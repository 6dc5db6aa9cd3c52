mod EndLemmas
mod RestLemmas
