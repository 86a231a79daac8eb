pub mod FactorTests
