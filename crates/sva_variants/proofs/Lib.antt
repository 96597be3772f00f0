mod Answered
mod CutLemmas
mod Trials
