pub mod ChartLemmas
mod WitnessLemmas
