pub mod HeldHistories
