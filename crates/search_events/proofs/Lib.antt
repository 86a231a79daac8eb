pub mod EventRow
pub mod EventsInOrder
